pub mod Program
pub mod Listed
