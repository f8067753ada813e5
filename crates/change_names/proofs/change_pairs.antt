pub mod PairLaws
pub mod PlaceLaws
pub mod RegionLaws
pub mod VariableLaws
