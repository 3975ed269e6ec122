pub mod Batch
pub mod Cutting
pub mod Laws
pub mod Lines
pub mod Ones
pub mod ReadBack
pub mod Steps
pub mod Serving
