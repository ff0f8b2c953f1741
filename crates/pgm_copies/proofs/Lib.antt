pub mod Copying
pub mod RoundTrip
