pub mod Agreement
pub mod ScopeLaws
