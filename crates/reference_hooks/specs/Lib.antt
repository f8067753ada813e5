pub mod Hooks
pub mod Private
pub mod Tables
