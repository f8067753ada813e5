pub mod PartLaws
pub mod FunctionLaws
pub mod ProgramLaws
