pub mod Disjoint
pub mod Threads
