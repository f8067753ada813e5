-- The words of private contracts.
pub mod Prototypes
pub mod Interfaces
