pub mod Splice
pub mod Encoding
pub mod Sized
