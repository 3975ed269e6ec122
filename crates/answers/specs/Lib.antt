pub mod Numbering
pub mod Paths
