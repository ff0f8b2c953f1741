pub mod Lists
pub mod Plane
pub mod Plate
pub mod Forms
pub mod Plunges
pub mod Sizes
