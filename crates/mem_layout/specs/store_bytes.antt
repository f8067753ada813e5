pub mod Place
pub mod Spells
pub mod Image
pub mod PlaceLaws
pub mod StoreLaws
pub mod SuitsLaws
pub mod InitialLaws
