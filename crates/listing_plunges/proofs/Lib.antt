pub mod Plunges
pub mod Marks
pub mod Listings
