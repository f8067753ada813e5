pub mod told_laws
pub mod told_places
pub mod telling_list
pub mod telling_groups
