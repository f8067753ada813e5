pub mod Index
pub mod UnitNames
pub mod Rows
pub mod Faults
pub mod Private
