pub mod Addresses
pub mod Headings
pub mod Home
pub mod Variables
