pub mod Task
pub mod Hook
pub mod Laws
