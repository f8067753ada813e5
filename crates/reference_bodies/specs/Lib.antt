pub mod Flow
pub mod Private
