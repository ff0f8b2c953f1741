pub mod Rules
pub mod Writes
pub mod Loads
pub mod RoundTrip
