pub mod base_rules
pub mod member_rules
pub mod class_limit_rules
pub mod class_rules
pub mod interface_rules
