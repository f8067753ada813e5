pub mod FoundLaws
pub mod TellLaws
pub mod StateLaws
pub mod RoundLaws
