pub mod ToldLaws
pub mod TellingLaws
pub mod LocalLaws
