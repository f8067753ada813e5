pub mod HeldTasks
pub mod Steps
pub mod Whole
