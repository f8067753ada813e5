pub mod Stores
pub mod Quiet
pub mod Statements
