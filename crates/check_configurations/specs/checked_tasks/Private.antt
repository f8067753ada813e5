-- The words of private contracts.
pub mod Settings
pub mod Lists
pub mod Groups
pub mod Made
