pub mod NumberLists
pub mod TurnSteps
pub mod NumberSteps
pub mod PassLaws
pub mod CycleLaws
