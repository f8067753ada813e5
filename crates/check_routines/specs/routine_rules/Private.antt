-- The words of private contracts.
pub mod Bodies
pub mod Limits
pub mod Variables
pub mod Routines
