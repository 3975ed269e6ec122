pub mod Canonical
pub mod Bits
pub mod Writing
pub mod ReadBack
pub mod RoundTrip
