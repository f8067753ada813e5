pub mod SharedLaws
pub mod RegionLaws
pub mod GlobalLaws
pub mod SectionLaws
