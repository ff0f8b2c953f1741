pub mod Axis
pub mod Calls
