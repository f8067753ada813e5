pub mod Outcome
pub mod Noted
pub mod ValueLaws
pub mod Private
