pub mod InstanceLaws
pub mod ProgramLaws
