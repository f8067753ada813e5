-- The words of private contracts.
pub mod Callee
pub mod Found
pub mod Given
