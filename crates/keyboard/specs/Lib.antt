pub mod Keys
pub mod Playing
pub mod Worked
pub mod Computed
