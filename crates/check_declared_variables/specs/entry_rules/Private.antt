-- The words of private contracts.
pub mod Groups
pub mod Bodies
pub mod Entries
