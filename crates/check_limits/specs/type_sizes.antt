pub mod Levels
pub mod Size
pub mod Sizes
pub mod Private
