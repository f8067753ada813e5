pub mod Parts
pub mod ListLaws
pub mod NodeLaws
