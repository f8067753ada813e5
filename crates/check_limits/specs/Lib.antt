pub mod type_sizes
pub mod limit_rules
pub mod base_limits
