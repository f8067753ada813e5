pub mod PlaceLaws
pub mod RootLaws
pub mod AssignabilityLaws
pub mod NoteLaws
pub mod Joins
