pub mod Changed
pub mod Private
