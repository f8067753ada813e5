-- The words of private contracts.
pub mod Text
pub mod Places
pub mod Bases
pub mod Climb
pub mod Found
pub mod Tables
