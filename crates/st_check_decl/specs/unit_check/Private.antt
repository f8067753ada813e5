-- The words of private contracts.
pub mod Side
pub mod Refused
pub mod Progress
pub mod Configurations
pub mod Configured
pub mod Program
