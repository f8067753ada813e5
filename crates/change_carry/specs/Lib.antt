pub mod Private
pub mod Store
