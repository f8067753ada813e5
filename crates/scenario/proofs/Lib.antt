pub mod EndLaws
pub mod PlaceLaws
pub mod PlayLineLaws
pub mod StateLaws
pub mod FormLaws
pub mod SoundLaws
pub mod ScenarioLaws
pub mod MadeLaws
