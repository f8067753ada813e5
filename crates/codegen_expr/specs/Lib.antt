pub mod Ints
pub mod Sources
