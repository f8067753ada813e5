pub mod Parts
pub mod Bodies
pub mod Variables
pub mod Routines
pub mod Private
