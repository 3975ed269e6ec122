pub mod Voices
pub mod Singing
pub mod Worked
