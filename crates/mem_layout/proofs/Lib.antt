pub mod IfLaws
pub mod Unfold
pub mod SizeLaws
pub mod EntryLaws
pub mod RoundLaws
pub mod PlaceLaws
pub mod WayLaws
pub mod LayoutLaws
