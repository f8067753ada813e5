pub mod Loaded
pub mod Private
