pub mod SumLaws
pub mod TakenLaws
