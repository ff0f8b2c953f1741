pub mod InPlace
pub mod Keeping
