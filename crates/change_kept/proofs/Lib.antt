pub mod FieldLaws
pub mod InstanceLaws
pub mod KeptLaws
