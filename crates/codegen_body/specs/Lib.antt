pub mod Backward
pub mod Counting
