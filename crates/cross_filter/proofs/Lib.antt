pub mod Cross
