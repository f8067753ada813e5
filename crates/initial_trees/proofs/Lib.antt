pub mod GivenLaws
pub mod LevelLaws
pub mod ListLaws
pub mod StoreLaws
pub mod KindLaws
pub mod StepLaws
