pub mod PartLaws
pub mod GivenLaws
