pub mod Parts
pub mod Ones
pub mod Shared
