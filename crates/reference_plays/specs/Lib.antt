pub mod Controller
pub mod Private
