pub mod Plunges
pub mod Stands
