-- The words of private contracts.
pub mod Entered
pub mod Programs
