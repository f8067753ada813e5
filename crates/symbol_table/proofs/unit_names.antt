pub mod KnownLaws
pub mod TypeLaws
pub mod ClassLaws
pub mod GlobalLaws
