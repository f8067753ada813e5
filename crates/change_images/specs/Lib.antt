pub mod Images
pub mod Phases
pub mod ImageLaws
pub mod Apply
pub mod ChangeLaws
pub mod TableLaws
