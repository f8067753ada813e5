pub mod NumberLaws
pub mod SoFarLaws
pub mod WalkLaws
