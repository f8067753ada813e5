-- Words that the contracts of private functions alone cite.
pub mod Lines
pub mod Made
pub mod PlayLine
pub mod Played
pub mod Reader
