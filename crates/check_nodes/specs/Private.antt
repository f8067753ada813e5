-- The words of private contracts.
pub mod Count
pub mod Values
