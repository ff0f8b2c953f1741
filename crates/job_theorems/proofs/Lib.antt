pub mod Answers
pub mod Canonical
pub mod Restored
pub mod Climbed
pub mod Blocks
