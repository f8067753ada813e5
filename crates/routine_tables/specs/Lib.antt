pub mod Parameters
pub mod Tables
pub mod Private
pub mod signature_tables
