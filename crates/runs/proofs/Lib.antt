-- Laws that belong to no one function.
pub mod Reading
pub mod Putting
pub mod Encoding
pub mod Sound
pub mod Fit
pub mod Tested
pub mod Joining
pub mod ByTag
pub mod Marks
pub mod Verdict
pub mod Meaning
