pub mod ConstantLaws
pub mod DimensionLaws
