pub mod Scenario
pub mod Reading
pub mod Made
pub mod Private
