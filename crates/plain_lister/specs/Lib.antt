pub mod Arena
pub mod Listing
pub mod Adding
pub mod Table
pub mod Told
pub mod Lines
