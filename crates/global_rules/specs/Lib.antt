pub mod Shared
pub mod Globals
pub mod Sections
pub mod Private
