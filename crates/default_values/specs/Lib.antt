pub mod given_values
pub mod worth_numbers
pub mod worth_steps
pub mod initial_worths
pub mod structure_worths
pub mod numbered_signatures
