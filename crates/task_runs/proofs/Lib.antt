pub mod Tasks
pub mod Hooks
pub mod Entries
pub mod OfCode
pub mod Away
