pub mod FieldLaws
pub mod SortLaws
pub mod FaultLaws
pub mod AllLaws
