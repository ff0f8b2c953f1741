pub mod Regions
pub mod Beginnings
pub mod Climbs
