pub mod Program
pub mod Value
pub mod Shape
pub mod Initial
pub mod View
pub mod ValueLaws
pub mod ShapeLaws
