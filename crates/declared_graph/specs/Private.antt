-- The words of private contracts.
pub mod Contained
pub mod Edges
pub mod Inner
pub mod Known
pub mod Marks
pub mod Names
pub mod Needed
pub mod Shared
