pub mod LevelLaws
pub mod CountLaws
pub mod RoundLaws
