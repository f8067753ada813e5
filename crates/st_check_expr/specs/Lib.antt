pub mod Broken
pub mod Walk
pub mod Constants
pub mod Private
