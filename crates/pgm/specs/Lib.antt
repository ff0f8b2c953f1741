pub mod Pgm
pub mod Steps
