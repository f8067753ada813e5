pub mod FoundLaws
pub mod ArrayLaws
