pub mod NameLaws
pub mod TwiceLaws
