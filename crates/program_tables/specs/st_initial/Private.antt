-- The words of private contracts.
pub mod Kept
pub mod Given
pub mod Numbers
