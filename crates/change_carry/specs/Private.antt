-- The words of private contracts.
pub mod Carry
pub mod Numbers
pub mod Parts
pub mod References
