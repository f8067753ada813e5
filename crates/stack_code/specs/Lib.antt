pub mod Steps
pub mod Memory
pub mod Machine
pub mod Validity
pub mod valid_code
pub mod code_listing
