pub mod Cells
pub mod Index
pub mod Entries
pub mod Chains
pub mod Search
pub mod Tried
pub mod Plan
