pub mod unit_signatures
