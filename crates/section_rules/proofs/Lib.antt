pub mod FarLaws
pub mod HeldLaws
pub mod Joined
