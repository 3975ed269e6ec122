pub mod Pitches
pub mod Listening
pub mod Keeping
