pub mod Places
pub mod Plan
pub mod Code
pub mod Bodies
pub mod Tops
pub mod Routines
pub mod Laws
