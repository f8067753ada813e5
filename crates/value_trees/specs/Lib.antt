pub mod Value
pub mod Exchange
pub mod Private
