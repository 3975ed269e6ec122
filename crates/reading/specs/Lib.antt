pub mod Bends
pub mod Gliding
