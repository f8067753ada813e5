pub mod Parts
pub mod CountLaws
pub mod ListLaws
pub mod NodeLaws
pub mod ValueLaws
