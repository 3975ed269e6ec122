pub mod Silent
pub mod Eighths
pub mod Running
pub mod Going
pub mod Heading
