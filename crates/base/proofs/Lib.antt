pub mod Copying
pub mod Leading
pub mod Refusing
pub mod Bytes
pub mod Words
pub mod Got
pub mod Tenths
