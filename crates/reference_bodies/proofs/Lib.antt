pub mod BodySteps
pub mod EffectSteps
pub mod Falling
pub mod ListLaws
pub mod LoopLaws
pub mod TurnSteps
