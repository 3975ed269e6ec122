pub mod Songs
pub mod Kinds
