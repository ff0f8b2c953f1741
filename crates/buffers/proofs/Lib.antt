pub mod Fill
pub mod Rooms
pub mod Zeros
