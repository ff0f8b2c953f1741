pub mod Text
pub mod Reasons
