pub mod config_rules
pub mod program_instances
pub mod configuration_rules
pub mod checked_tasks
