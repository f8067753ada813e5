mod CallLaws
pub mod Inputs
