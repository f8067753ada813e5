pub mod BlockLaws
pub mod TableLaws
