pub mod CarryLaws
pub mod PartLaws
pub mod StoreLaws
