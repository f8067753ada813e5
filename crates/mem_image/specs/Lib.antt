pub mod Image
pub mod ImageLoans
pub mod RegionsLoans
pub mod Laws
