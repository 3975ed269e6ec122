pub mod Finding
pub mod Quiet
pub mod Scan
