pub mod UsedLaws
