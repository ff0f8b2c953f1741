pub mod Refusals
pub mod Sides
