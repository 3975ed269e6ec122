pub mod Lists
pub mod Runs
pub mod Folds
pub mod Afresh
pub mod Worked
pub mod Counting
pub mod Hushes
