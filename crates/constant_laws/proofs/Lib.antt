pub mod Numbers
pub mod Constants
pub mod Scopes
pub mod Steps
pub mod Starts
pub mod Whole
