pub mod Text
pub mod Rows
pub mod Parts
pub mod Write
pub mod RoundTrip
