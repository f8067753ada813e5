pub mod Arguments
pub mod Narrow
pub mod Likes
pub mod Copies
pub mod KeptAddresses
pub mod Worded
pub mod NumberKinds
