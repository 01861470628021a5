pub mod Meaning
mod Bytes
