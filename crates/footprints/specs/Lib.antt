pub mod Footprints
pub mod Private
pub mod reached_routines
