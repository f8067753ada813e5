pub mod ByteLaws
pub mod InputLaws
pub mod LocatedLaws
pub mod ShownLaws
