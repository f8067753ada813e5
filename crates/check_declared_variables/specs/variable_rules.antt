pub mod Given
pub mod Items
pub mod Sections
pub mod Results
pub mod Private
