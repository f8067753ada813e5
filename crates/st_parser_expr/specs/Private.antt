-- The words of private contracts, and of the inner rules, from which the parser of declarations goes on.
pub mod Machine
pub mod Promises
pub mod Depth
pub mod Faults
pub mod Levels
