pub mod shared_bits
pub mod region_rules
pub mod unit_regions
