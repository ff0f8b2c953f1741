pub mod Relief
pub mod Works
