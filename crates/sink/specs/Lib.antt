pub mod Sink
pub mod Rule
