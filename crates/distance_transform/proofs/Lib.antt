pub mod Join
pub mod Passes
pub mod Finish
