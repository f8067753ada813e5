pub mod BehindLaws
pub mod BridgeLaws
pub mod CycleLaws
pub mod EdgeLaws
pub mod SearchLaws
