pub mod AcceptedLaws
mod Decided
pub mod OneChecked
