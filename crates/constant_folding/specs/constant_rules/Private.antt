-- The words of private contracts.
pub mod Parts
pub mod Places
