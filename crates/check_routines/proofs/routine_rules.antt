pub mod FirstLaws
pub mod RoutineLaws
