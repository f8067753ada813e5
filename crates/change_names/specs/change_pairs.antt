pub mod Pairs
pub mod Places
pub mod Private
pub mod Regions
pub mod Variables
