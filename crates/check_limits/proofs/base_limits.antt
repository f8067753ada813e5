pub mod BaseLaws
pub mod HeightLaws
pub mod WayLaws
