pub mod Night
pub mod Ones
pub mod Going
