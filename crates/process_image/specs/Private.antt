-- The words of private contracts.
pub mod Inputs
pub mod Places
pub mod Shown
