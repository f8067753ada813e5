pub mod Methods
pub mod Prototypes
pub mod Private
