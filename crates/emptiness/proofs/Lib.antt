-- Laws that belong to no one function.
pub mod Tries
pub mod Links
pub mod Marks
pub mod Rounds
pub mod Turns
pub mod Shared
pub mod Adding
pub mod Tabling
pub mod Rooting
pub mod Rooted
pub mod Puts
pub mod Verdicts
pub mod Answered
pub mod Meaning
pub mod Outcome
