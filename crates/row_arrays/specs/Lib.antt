pub mod Rows
pub mod Start
pub mod Asked
