pub mod Unweighed
pub mod Weighed
pub mod Private
