pub mod Back
pub mod Listed
pub mod Steps
pub mod Turns
