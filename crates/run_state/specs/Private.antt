-- The words of private contracts.
pub mod Frames
pub mod Log
pub mod Writes
