pub mod Texts
pub mod Entered
pub mod Blocks
pub mod Scopes
pub mod Instances
