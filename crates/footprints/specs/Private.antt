-- The words of private contracts.
pub mod Puts
pub mod Holders
pub mod Inputs
pub mod Tables
pub mod Walk
