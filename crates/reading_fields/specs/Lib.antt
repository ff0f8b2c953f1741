pub mod Openings
pub mod Either
