pub mod ClassLaws
pub mod PartLaws
