pub mod Checking
pub mod Comparing
