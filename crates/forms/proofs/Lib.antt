-- Laws that belong to no one function, and what the moves mean.
pub mod InForm
pub mod Moving
pub mod Meaning
