pub mod Names
pub mod Pairs
pub mod Private
pub mod Regions
pub mod Side
pub mod change_pairs
pub mod change_paths
