pub mod Fields
pub mod Afters
pub mod Beside
pub mod Outputs
pub mod Starts
pub mod Taking
pub mod Verdicts
pub mod Voices
