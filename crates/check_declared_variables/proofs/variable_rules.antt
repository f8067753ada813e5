pub mod EachLaws
pub mod ExternalLaws
pub mod ItemLaws
pub mod SectionLaws
