-- The words of private contracts.
pub mod Families
pub mod Adds
pub mod Asked
pub mod Serves
