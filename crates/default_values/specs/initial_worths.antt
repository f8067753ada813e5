pub mod Found
pub mod Structures
pub mod Private
