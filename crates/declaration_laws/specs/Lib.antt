pub mod DeclarationsAre
pub mod DeclarationLaws
