pub mod GroupLaws
pub mod BodyLaws
