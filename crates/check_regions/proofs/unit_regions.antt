pub mod ListedLaws
pub mod RunLaws
