pub mod Uses
pub mod Private
