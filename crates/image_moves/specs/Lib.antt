pub mod Moves
pub mod Merged
pub mod MoveLaws
pub mod MoveViews
pub mod Ways
pub mod WayViews
pub mod Table
