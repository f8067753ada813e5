-- The words of private contracts.
pub mod Limits
pub mod Lists
