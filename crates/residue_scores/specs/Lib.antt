pub mod Scores
pub mod Residues
