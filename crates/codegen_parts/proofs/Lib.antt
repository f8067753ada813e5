pub mod CodeLaws
pub mod CallLaws
