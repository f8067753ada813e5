pub mod Places
pub mod PlaceLaws
pub mod Writes
pub mod StoreWrites
pub mod WriteLaws
