-- The words of private contracts.
pub mod Classes
pub mod Places
