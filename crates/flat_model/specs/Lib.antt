pub mod Flatten
pub mod Flattened
pub mod Lists
