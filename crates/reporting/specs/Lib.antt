pub mod Counts
pub mod Going
pub mod Held
pub mod Keeping
pub mod Reporting
pub mod Steps
