-- The words of private contracts.
pub mod Counts
