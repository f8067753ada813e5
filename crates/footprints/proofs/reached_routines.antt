pub mod AddLaws
pub mod FamilyLaws
pub mod AskLaws
pub mod EnterLaws
pub mod QueueLaws
