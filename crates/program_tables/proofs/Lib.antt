pub mod PlaceLaws
pub mod ChainLaws
pub mod ClimbLaws
pub mod ClassLaws
pub mod RoutineLaws
pub mod TableLaws
