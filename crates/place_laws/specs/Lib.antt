pub mod Agrees
pub mod ArgumentLaws
