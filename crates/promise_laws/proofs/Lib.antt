pub mod Bodies
pub mod Joined
pub mod Hooks
pub mod Placed
pub mod Whole
