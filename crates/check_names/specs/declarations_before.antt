pub mod Before
pub mod Private
