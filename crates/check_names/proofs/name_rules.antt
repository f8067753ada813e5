pub mod FaultLists
pub mod ConfigurationLaws
