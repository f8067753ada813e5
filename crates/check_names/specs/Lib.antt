pub mod name_spaces
pub mod name_rules
pub mod member_names
pub mod declarations_before
