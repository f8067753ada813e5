-- The words of private contracts.
pub mod Changed
pub mod Changing
pub mod First
pub mod Footprints
pub mod Running
pub mod Tables
pub mod Versions
