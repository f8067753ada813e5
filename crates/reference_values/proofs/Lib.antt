pub mod ArgumentLaws
pub mod CallLaws
pub mod CallSteps
pub mod ListLaws
pub mod LoopSteps
pub mod PlaceLaws
pub mod ArmLaws
