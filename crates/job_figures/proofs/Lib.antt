pub mod ByReach
pub mod Depths
pub mod Walk
