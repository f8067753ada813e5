pub mod Play
pub mod Outputs
pub mod Writing
pub mod Fits
pub mod Reading
pub mod Interleaving
pub mod Summary
pub mod Private
