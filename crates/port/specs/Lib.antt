pub mod Machine
pub mod Turning
