pub mod Digits
pub mod Printing
pub mod Shortest
pub mod Text
