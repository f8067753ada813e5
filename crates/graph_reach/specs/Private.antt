-- The words of private contracts.
pub mod Joins
pub mod Rounds
