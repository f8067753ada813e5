-- The words of private contracts.
pub mod Counts
pub mod Names
pub mod Nodes
pub mod Found
pub mod Lists
