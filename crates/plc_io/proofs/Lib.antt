mod Consumed
mod Pieces
pub mod Told
