pub mod Stack
pub mod Stores
pub mod Faults
