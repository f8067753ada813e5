pub mod Ports
pub mod TaskPorts
pub mod PortLaws
pub mod Private
