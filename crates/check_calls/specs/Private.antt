-- The words of private contracts.
pub mod Callee
pub mod Heads
pub mod Matching
pub mod Names
pub mod Faults
pub mod Seen
