pub mod Mendings
pub mod Decided
pub mod Deciding
pub mod Twice
pub mod Reading
