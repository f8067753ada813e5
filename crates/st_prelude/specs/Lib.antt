pub mod Blocks
pub mod Prelude
