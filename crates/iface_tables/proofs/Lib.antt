pub mod DeclarerLaws
pub mod PrototypeLaws
pub mod TargetLaws
