pub mod GoneLaws
pub mod HeldLaws
pub mod PlayLaws
