pub mod Groups
pub mod Arranged
pub mod Private
