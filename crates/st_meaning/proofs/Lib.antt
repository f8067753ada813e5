pub mod Builder
pub mod Examples
pub mod Ticks
pub mod Faults
