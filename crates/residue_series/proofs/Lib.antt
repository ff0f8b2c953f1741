pub mod Gather
pub mod Plunges
pub mod Midways
pub mod Stands
