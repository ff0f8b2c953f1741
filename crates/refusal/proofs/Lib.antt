pub mod Refusals
pub mod Trials
pub mod Buffers
