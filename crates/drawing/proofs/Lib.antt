pub mod Reaches
pub mod Files
pub mod Boxes
