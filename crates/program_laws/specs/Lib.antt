pub mod Accepted
pub mod Cycles
pub mod Stores
pub mod Paths
pub mod Layouts
