pub mod CallForm
pub mod LongerRuns
