-- The words of private contracts.
pub mod Counted
pub mod Groups
pub mod Rounds
