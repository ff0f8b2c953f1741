pub mod Reaches
pub mod Files
