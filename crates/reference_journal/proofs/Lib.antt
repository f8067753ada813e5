pub mod ChangeLaws
pub mod LoadLaws
pub mod RunLaws
