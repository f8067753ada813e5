pub mod Phases
pub mod Lanes
pub mod Orders
