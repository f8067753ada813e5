pub mod Playable
pub mod Private
