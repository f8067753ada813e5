pub mod CountLaws
pub mod SumLaws
pub mod ClassLaws
