pub mod Entries
pub mod Rule
pub mod Table
pub mod Sinks
pub mod Literals
