-- The words of private contracts.
pub mod Heights
pub mod Ways
