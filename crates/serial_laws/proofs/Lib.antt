pub mod PhaseRuns
pub mod SameRuns
pub mod SerialRuns
pub mod TaskSteps
pub mod Summaries
pub mod SerialThreads
