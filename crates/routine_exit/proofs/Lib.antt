pub mod Given
pub mod OwnParts
pub mod Leave
