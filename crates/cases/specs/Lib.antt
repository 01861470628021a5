pub mod Sets
pub mod Cases
pub mod Edges
pub mod SixteenTags
pub mod EqualPairs
pub mod RuleMoves
pub mod Zeros
