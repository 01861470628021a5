pub mod Code
pub mod Value
