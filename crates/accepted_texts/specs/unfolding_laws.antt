pub mod UnfoldingLaws
