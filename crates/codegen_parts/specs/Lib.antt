pub mod CallPlans
pub mod Cursors
pub mod Steps
