pub mod Tuners
pub mod Parted
pub mod Following
pub mod Beside
pub mod Verdicts
pub mod Afters
pub mod Taking
