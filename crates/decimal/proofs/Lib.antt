pub mod Quotients
pub mod Scans
