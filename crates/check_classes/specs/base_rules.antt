pub mod Used
pub mod Private
