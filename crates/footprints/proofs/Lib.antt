pub mod PutLaws
pub mod MarkLaws
pub mod HolderLaws
pub mod InputLaws
pub mod WalkLaws
pub mod PartLaws
