pub mod CountLaws
pub mod LimitLaws
