pub mod Controllers
pub mod Threads
