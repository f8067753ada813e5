pub mod ClassLaws
pub mod ListLaws
pub mod RegionLaws
pub mod StructureLaws
