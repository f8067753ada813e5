-- The words of private contracts.
pub mod Depths
pub mod Variables
