pub mod BackLaws
pub mod CountLaws
pub mod EffectLaws
pub mod LoopLaws
