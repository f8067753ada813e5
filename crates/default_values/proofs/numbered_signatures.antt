pub mod AlikeLaws
pub mod FaultLaws
