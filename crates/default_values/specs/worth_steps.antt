pub mod Steps
pub mod StepLaws
pub mod Private
