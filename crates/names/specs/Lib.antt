pub mod Lines
pub mod Names
pub mod Places
pub mod Table
pub mod Check
pub mod Saved
