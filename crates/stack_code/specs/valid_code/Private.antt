-- The words of private contracts.
pub mod Kinds
pub mod Calls
pub mod Tables
pub mod Entered
pub mod Checks
pub mod Indexed
