pub mod DeclaredLaws
pub mod ParameterLaws
pub mod EntryLaws
pub mod TableLaws
