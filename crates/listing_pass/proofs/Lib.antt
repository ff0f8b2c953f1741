pub mod Common
pub mod Passes
