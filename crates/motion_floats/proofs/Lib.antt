pub mod Literals
pub mod Ranges
pub mod Bounds
pub mod Rising
pub mod BuiltIn
