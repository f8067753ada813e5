pub mod Given
pub mod ConstantLaws
