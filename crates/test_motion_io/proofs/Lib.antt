-- The law that the proofs of test_motion_io cite.
pub mod Floats
