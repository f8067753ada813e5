pub mod Entering
pub mod Numbers
pub mod Valid
pub mod Told
pub mod CodeLaws
