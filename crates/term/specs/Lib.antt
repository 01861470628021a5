pub mod Scan
pub mod Answer
pub mod Grammar
pub mod State
pub mod Read
pub mod Spelling
pub mod Meaning
pub mod Zeros
