pub mod type_rules
pub mod variable_rules
pub mod entry_rules
