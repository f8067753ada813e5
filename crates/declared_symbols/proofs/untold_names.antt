pub mod StepLaws
pub mod GlobalLaws
pub mod UntoldLaws
