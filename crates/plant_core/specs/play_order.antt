pub mod Progress
pub mod Private
