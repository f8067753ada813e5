pub mod CountLaws
pub mod DepthLaws
pub mod SumLaws
