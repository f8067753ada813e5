pub mod Characters
pub mod Reach
pub mod Piece
