pub mod Layout
pub mod Private
pub mod store_bytes
pub mod initial_images
pub mod loaded_meaning
