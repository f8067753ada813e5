pub mod Depths
pub mod Private
