pub mod Laws
pub mod Applied
pub mod Lists
