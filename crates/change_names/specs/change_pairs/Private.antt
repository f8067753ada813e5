-- The words of private contracts.
pub mod Regions
pub mod Variables
