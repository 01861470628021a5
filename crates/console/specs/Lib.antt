pub mod Words
pub mod Output
