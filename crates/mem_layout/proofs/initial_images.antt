pub mod FillLaws
pub mod TypeLaws
pub mod LoopLaws
pub mod ImageLaws
