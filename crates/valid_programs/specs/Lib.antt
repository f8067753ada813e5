pub mod Compiled
pub mod Told
pub mod Laws
