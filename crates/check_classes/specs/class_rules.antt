pub mod Classes
pub mod Private
