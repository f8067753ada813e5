pub mod Prototypes
pub mod Interfaces
pub mod Private
