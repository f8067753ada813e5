pub mod Variables
pub mod Members
pub mod Given
pub mod RegionNumbers
pub mod Private
