pub mod Untold
pub mod Private
