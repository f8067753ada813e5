pub mod Running
pub mod Lasting
pub mod Counting
pub mod Order
pub mod AllLaws
