pub mod Taken
pub mod Private
