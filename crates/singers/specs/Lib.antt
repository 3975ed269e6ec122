pub mod Singers
pub mod Voicing
