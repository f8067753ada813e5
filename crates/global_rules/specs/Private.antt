-- The words of private contracts.
pub mod Shared
pub mod Regions
pub mod Globals
pub mod Sections
