pub mod Graph
pub mod Private
