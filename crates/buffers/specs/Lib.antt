pub mod Fill
pub mod Margin
pub mod Runs
