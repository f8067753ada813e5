pub mod Assigned
pub mod Bodies
