pub mod PlaceLaws
pub mod ClimbLaws
pub mod TableLaws
pub mod EnumeratorLaws
pub mod ChainLaws
pub mod TellLaws
