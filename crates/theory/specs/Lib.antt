pub mod Erosion
pub mod Climbed
pub mod Levels
pub mod Listing
pub mod Blocks
pub mod Near
