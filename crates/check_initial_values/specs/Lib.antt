pub mod Lent
pub mod Fields
pub mod Walk
pub mod Worth
pub mod Private
