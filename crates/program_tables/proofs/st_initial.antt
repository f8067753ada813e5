pub mod VariableLaws
pub mod GivenLaws
pub mod TableLaws
pub mod NumberLaws
pub mod WalkLaws
