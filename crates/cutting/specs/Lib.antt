pub mod Cuts
pub mod Stretches
