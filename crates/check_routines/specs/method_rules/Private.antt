-- The words of private contracts.
pub mod Methods
pub mod Prototypes
