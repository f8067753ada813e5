-- The words of private contracts.
pub mod Phases
pub mod Turn
