pub mod SlotLaws
pub mod GivenLaws
