pub mod MoveFacts
pub mod MoverLaws
pub mod FindFacts
pub mod TableFacts
