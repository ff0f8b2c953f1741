pub mod Maps
pub mod Same
