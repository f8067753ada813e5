pub mod IndexLaws
pub mod RowLaws
