pub mod Masks
pub mod Writes
pub mod Entry
pub mod Starts
