pub mod Parts
pub mod Prefixes
pub mod Reading
pub mod Looks
pub mod Differences
pub mod Written
pub mod Nested
pub mod Telling
