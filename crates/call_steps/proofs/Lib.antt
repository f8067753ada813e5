pub mod CalleeLaws
pub mod SameLaws
pub mod FoundLaws
