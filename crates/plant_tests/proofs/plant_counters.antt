pub mod Bytes
pub mod KitLists
