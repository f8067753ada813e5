pub mod CalleeLaws
pub mod HeadLaws
pub mod MatchingLaws
pub mod FaultParts
