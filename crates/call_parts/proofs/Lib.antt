pub mod Supers
pub mod Rooms
pub mod Outputs
pub mod Dispatch
