pub mod Private
pub mod Start
