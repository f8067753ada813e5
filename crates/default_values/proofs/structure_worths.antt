pub mod LevelLaws
pub mod GroupLaws
pub mod RoundLaws
pub mod CountLaws
