pub mod Seeks
pub mod Asking
pub mod Sought
pub mod Feeding
