pub mod Called
pub mod Operands
pub mod Behind
pub mod Joined
pub mod Callees
pub mod Supers
pub mod Expressions
