pub mod Callee
pub mod Heads
pub mod Parameters
pub mod Matching
pub mod Private
