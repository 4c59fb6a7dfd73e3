pub mod Matching
pub mod Candidates
pub mod Reading
pub mod Applied
pub mod Accepted
pub mod Short
pub mod Lists
pub mod ListsApplied
mod Some
