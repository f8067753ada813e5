-- The words of private contracts.
pub mod Bounds
pub mod Elements
pub mod Dimensions
pub mod Arrays
