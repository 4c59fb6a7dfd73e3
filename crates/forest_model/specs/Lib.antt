pub mod Forest
pub mod Listing
