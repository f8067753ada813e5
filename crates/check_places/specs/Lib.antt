pub mod Standing
pub mod Private
