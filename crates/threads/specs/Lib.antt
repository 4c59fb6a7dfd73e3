pub mod Lists
pub mod Order
pub mod Folding
pub mod Steps
pub mod Goals
pub mod Closing
