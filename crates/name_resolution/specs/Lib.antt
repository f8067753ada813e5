pub mod Locals
pub mod Meant
pub mod Tables
pub mod Private
