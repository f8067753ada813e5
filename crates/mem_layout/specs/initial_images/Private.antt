-- The words of private contracts.
pub mod Fill
pub mod Images
