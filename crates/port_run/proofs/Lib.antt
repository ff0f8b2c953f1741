pub mod Running
pub mod Verdicts
pub mod Traces
pub mod Vectors
