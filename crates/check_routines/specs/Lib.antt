pub mod depth_rules
pub mod routine_rules
pub mod function_rules
pub mod method_rules
