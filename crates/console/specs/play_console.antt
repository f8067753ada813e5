pub mod Private
pub mod Report
