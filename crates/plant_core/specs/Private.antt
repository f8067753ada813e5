pub mod Meeting
pub mod Tasks
pub mod Causes
pub mod Keeping
pub mod Ledger
