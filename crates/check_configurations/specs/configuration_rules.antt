pub mod Configurations
pub mod Private
