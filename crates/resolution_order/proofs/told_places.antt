pub mod Places
pub mod Flat
pub mod Variables
pub mod PlaceLaws
