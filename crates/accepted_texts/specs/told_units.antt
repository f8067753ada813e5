pub mod Formed
pub mod Told
