pub mod Traces
pub mod Inputs
