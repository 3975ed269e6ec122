pub mod Accompanying
pub mod Rates
pub mod Singing
