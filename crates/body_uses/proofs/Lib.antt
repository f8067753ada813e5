pub mod CallLaws
pub mod UseLaws
pub mod StatementLaws
