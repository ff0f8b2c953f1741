pub mod Narrow
pub mod Scale
