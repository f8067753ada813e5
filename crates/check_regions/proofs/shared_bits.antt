pub mod BitLaws
pub mod StepLaws
pub mod TakenLaws
