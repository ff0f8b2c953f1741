pub mod Figures
pub mod Passes
