pub mod Stages
pub mod CycleLaws
pub mod Events
pub mod Meetings
pub mod TaskLaws
pub mod CauseLaws
pub mod Beginning
