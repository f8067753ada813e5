-- The words of private contracts.
pub mod Places
pub mod Programs
pub mod Walk
