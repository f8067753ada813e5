pub mod constant_values
pub mod constant_rules
pub mod told_expressions
