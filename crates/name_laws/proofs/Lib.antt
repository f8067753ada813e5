pub mod Rows
pub mod Stands
pub mod Members
pub mod Globals
pub mod Fields
pub mod PlaceTypes
pub mod Routines
pub mod Found
