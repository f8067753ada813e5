pub mod Bits
pub mod Reach
pub mod Private
