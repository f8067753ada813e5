pub mod Scopes
pub mod Private
