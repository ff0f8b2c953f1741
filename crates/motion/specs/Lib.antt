pub mod Motions
pub mod Changes
