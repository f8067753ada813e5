-- The words of private contracts.
pub mod Table
pub mod Entry
pub mod Rounds
pub mod Place
pub mod Way
pub mod Regions
