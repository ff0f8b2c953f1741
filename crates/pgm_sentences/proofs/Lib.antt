pub mod Appending
pub mod Examples
