pub mod Follows
pub mod Reckoned
pub mod Worked
