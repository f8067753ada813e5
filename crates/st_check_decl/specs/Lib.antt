pub mod checked_declarations
pub mod unit_check
