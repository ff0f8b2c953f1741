pub mod Numerals
pub mod Sizes
