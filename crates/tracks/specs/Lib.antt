pub mod Tracks
pub mod Kinds
