pub mod Spaces
pub mod Configurations
