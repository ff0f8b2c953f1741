pub mod Decimal
pub mod Scan
