pub mod Steps
pub mod FieldSteps
pub mod Bytes
pub mod Readable
pub mod Answers
