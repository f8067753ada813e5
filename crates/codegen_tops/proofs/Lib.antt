pub mod ArmLaws
pub mod TopLaws
