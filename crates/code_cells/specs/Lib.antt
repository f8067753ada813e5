pub mod Cell
pub mod Found
pub mod Settled
pub mod Private
