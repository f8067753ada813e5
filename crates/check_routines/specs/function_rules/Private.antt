-- The words of private contracts.
pub mod Functions
pub mod Programs
