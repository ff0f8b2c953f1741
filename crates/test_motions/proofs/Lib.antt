-- The laws that the proofs of test_motions cite.
pub mod Floats
