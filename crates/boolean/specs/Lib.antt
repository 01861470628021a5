pub mod Combine
pub mod Answer
pub mod Merge
pub mod Key
pub mod Ready
pub mod Sounds
