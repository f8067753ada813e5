pub mod Instances
pub mod Private
