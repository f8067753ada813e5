-- The words of private contracts.
pub mod Hooks
pub mod Instances
