pub mod DepthLaws
pub mod VariableLaws
