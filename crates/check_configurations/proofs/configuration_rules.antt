pub mod ConfigurationLaws
pub mod InstanceLaws
