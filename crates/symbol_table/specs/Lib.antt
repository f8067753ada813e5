pub mod unit_names
pub mod unit_tables
