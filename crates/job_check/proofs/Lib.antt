pub mod Calls
pub mod Alike
pub mod Checking
