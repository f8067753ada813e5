pub mod OperationLaws
pub mod NotedLaws
pub mod ValueLaws
