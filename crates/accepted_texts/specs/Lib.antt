pub mod unfolding_laws
pub mod told_units
pub mod st_accepted
pub mod formed_units
pub mod formed_texts
pub mod sized_units
