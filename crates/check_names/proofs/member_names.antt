pub mod AboveLaws
pub mod OwnLaws
