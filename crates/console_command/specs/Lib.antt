pub mod Checker
pub mod Outcome
pub mod Reports
