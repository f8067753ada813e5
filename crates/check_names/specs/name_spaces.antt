pub mod Held
pub mod NamesIn
pub mod Private
