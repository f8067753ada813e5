pub mod GroupLaws
pub mod ListLaws
pub mod TakenLaws
