pub mod Pairs
pub mod Scores
