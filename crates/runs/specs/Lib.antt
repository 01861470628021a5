pub mod Steps
pub mod Check
pub mod Passes
pub mod Memories
pub mod Fields
