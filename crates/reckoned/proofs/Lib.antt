pub mod Follows
pub mod Worked
