pub mod Fields
pub mod Places
pub mod ReadBack
pub mod Reading
pub mod Signs
pub mod Spelling
pub mod Text
