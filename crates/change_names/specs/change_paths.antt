pub mod Change
pub mod Numbers
pub mod Private
