pub mod Known
pub mod Rule
pub mod Plant
pub mod Split
pub mod Cycles
