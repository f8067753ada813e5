-- The words of private contracts.
pub mod Externals
pub mod Rules
pub mod Items
pub mod Sections
pub mod Results
