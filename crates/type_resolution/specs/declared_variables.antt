pub mod Globals
pub mod Private
