pub mod Scans
pub mod Surplus
