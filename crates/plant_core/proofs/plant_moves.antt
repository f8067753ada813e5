pub mod Movings
pub mod Copies
pub mod Places
