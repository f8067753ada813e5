pub mod ChangeLaws
pub mod HookLaws
pub mod PhaseLaws
