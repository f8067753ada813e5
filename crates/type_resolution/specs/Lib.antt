pub mod written_types
pub mod declared_variables
pub mod told_locals
pub mod told_names
