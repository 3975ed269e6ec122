pub mod Waves
pub mod Rates
pub mod Samples
pub mod Judged
pub mod Judging
pub mod Ones
pub mod Pieces
