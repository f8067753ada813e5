pub mod FaultsHere
pub mod PassedLaws
pub mod PassLaws
