pub mod Slots
pub mod Private
