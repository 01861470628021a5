-- Laws that belong to no one function.
pub mod Parts
pub mod Decode
pub mod Loops
pub mod Words
pub mod Widths
pub mod Put
pub mod Laying
pub mod Passes
pub mod Window
pub mod Verdict
pub mod Sound
pub mod Encoded
pub mod Shifted
pub mod RoundTrip
pub mod Bytes
pub mod Answering
pub mod Known
