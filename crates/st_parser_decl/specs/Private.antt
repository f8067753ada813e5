-- The words of private contracts.
pub mod Form
pub mod Rules
pub mod Promises
pub mod Sections
pub mod Classes
pub mod Configurations
pub mod Causes
