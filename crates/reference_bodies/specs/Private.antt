-- The words of private contracts.
pub mod Attempted
pub mod Turns
