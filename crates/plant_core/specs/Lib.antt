pub mod Event
pub mod Stage
pub mod Hub
pub mod Claim
pub mod Answers
pub mod Private
pub mod plant_moves
pub mod play_order
