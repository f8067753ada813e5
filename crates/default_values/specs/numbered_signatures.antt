pub mod Alike
pub mod Signatures
