-- The words of private contracts.
pub mod Sums
pub mod Takes
