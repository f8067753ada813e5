pub mod Routine
pub mod Interfaces
pub mod Private
pub mod st_initial
