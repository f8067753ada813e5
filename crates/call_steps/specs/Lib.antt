pub mod Callee
pub mod Found
pub mod Private
