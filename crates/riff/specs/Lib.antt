pub mod Riff
pub mod Stores
pub mod Numbers
pub mod Chunks
pub mod Walks
pub mod Walking
pub mod Refusals
