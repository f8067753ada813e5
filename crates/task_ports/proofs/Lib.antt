pub mod PortLaws
pub mod SumLaws
pub mod Shown
pub mod TakeLaws
