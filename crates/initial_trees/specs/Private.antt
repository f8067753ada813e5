-- The words of private contracts.
pub mod Given
pub mod Kinds
pub mod Trees
