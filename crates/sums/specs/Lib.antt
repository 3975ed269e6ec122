pub mod Kept
pub mod Direct
pub mod Sweep
pub mod Silence
