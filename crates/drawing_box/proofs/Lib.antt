pub mod Rooms
pub mod Boxed
