pub mod ItemLaws
pub mod TellingLaws
pub mod LeftLaws
