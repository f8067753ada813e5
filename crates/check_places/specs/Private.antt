-- The words of private contracts.
pub mod Places
pub mod Indices
pub mod Assignability
pub mod Notes
