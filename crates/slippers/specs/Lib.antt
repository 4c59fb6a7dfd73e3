pub mod Stock
pub mod Supplied
