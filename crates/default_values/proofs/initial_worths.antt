pub mod PutLaws
pub mod WalkLaws
pub mod LoopLaws
