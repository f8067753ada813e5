-- The words of private contracts.
pub mod Held
pub mod Graph
pub mod Instances
