pub mod Answered
pub mod Members
pub mod Ranges
