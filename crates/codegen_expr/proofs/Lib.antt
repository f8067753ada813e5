pub mod WalkLaws
pub mod CallLaws
pub mod GivenLaws
pub mod FirstLaws
