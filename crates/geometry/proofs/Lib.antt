pub mod Distances
pub mod Vectors
pub mod Sizes
