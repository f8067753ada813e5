pub mod NumberLaws
pub mod RoundLaws
pub mod TellLaws
