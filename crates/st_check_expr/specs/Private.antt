-- The words of private contracts.
pub mod Along
pub mod Lists
pub mod Rows
pub mod Constants
