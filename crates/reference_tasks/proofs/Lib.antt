pub mod EnterLaws
pub mod TaskLaws
pub mod WalkSteps
