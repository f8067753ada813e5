pub mod Walks
pub mod Called
pub mod Private
