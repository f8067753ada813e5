-- The words of private contracts.
pub mod Targets
pub mod Broken
pub mod Declarers
pub mod Tables
