pub mod Told
pub mod Jobs
pub mod Ports
