pub mod class_chains
pub mod untold_names
pub mod unit_untold
