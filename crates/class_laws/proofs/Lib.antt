pub mod Same
pub mod Needs
pub mod Above
pub mod Narrow
pub mod Overrides
pub mod Signed
pub mod Parameters
pub mod Derived
