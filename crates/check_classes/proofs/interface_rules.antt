pub mod PrototypeLaws
pub mod InterfaceLaws
