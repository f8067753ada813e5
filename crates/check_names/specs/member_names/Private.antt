-- The words of private contracts.
pub mod Above
pub mod Own
