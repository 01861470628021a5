pub mod Places
pub mod Marking
pub mod Tags
pub mod Building
pub mod Answer
pub mod Meaning
