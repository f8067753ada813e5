-- The words of private contracts.
pub mod Places
pub mod Climb
pub mod Tables
pub mod Scope
pub mod Enumerators
pub mod Bases
pub mod Routines
pub mod Chain
