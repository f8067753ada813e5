pub mod BoundLaws
pub mod ElementLaws
pub mod DimensionLaws
pub mod ArrayLaws
pub mod TypeLaws
