pub mod Listed
pub mod Private
