-- The words of private contracts.
pub mod Listed
pub mod Run
