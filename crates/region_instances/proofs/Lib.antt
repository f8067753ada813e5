pub mod HeldLaws
pub mod EdgeLaws
pub mod HoldLaws
pub mod RegionLaws
