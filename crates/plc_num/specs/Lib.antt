pub mod Wrapping
pub mod Arithmetic
pub mod Bits
pub mod Conversion
