-- The words of private contracts.
pub mod Adds
pub mod Structures
pub mod Parameters
pub mod Routines
pub mod Unit
