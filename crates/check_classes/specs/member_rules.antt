pub mod Members
pub mod Private
