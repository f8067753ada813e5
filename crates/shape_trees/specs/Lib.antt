pub mod Numbers
pub mod Private
pub mod Shape
pub mod Unfolding
