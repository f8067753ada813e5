pub mod ValueLaws
pub mod ShapeLaws
