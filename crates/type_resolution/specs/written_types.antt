pub mod Types
pub mod Private
