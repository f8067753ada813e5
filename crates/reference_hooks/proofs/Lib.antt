pub mod ChainLaws
pub mod HookLaws
