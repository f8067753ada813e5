pub mod Families
pub mod Conformers
pub mod Reached
pub mod Private
