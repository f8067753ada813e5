-- The words of private contracts.
pub mod Chain
pub mod Grows
pub mod Known
