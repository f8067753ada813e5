pub mod Meaning
pub mod Denial
pub mod Next
pub mod One
pub mod History
pub mod plant_history
