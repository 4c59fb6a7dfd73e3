pub mod Listing
pub mod Ordered
pub mod Equal
pub mod Closing
pub mod Folding
pub mod Goals
pub mod Parts
pub mod Searching
