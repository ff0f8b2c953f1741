pub mod Comparing
pub mod Drawings
