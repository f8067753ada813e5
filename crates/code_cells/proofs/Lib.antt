pub mod Flow
pub mod Forms
pub mod Loops
pub mod FoundLaws
pub mod ReverseLaws
pub mod RoutineLaws
pub mod WholeLaws
