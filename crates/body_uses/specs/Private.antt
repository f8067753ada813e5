-- The words of private contracts.
pub mod Uses
pub mod Statements
