pub mod HookLaws
pub mod InstanceLaws
pub mod RegionLaws
pub mod StartLaws
