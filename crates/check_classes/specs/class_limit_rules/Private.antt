-- The words of private contracts.
pub mod Counts
pub mod Limits
