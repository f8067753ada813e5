pub mod Levels
pub mod Parts
pub mod Locals
pub mod Geometry
