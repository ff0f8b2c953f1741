pub mod Accepted
pub mod Runs
pub mod Counts
pub mod Statuses
pub mod Theorem
