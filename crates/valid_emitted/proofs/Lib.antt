pub mod Values
pub mod Choices
pub mod Counts
pub mod Effects
pub mod Routines
pub mod Valid
