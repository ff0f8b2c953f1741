pub mod Rows
pub mod Start
