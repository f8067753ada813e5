pub mod ClassLaws
pub mod NumberLaws
pub mod PartLaws
pub mod RegionLaws
pub mod SameLaws
pub mod UnfoldLaws
