pub mod TableLaws
pub mod WorthLaws
pub mod ListLaws
