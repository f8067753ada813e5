pub mod BitLaws
pub mod ReachLaws
