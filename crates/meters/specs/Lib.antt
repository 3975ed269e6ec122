pub mod Meters
pub mod Unrounded
