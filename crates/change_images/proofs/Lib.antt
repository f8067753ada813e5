pub mod CarriedImages
pub mod PlanFacts
pub mod Steps
pub mod TableFacts
pub mod Examples
