pub mod Escapes
pub mod Prefixes
pub mod Numbers
pub mod Quoted
pub mod Reading
pub mod Words
pub mod Differences
pub mod Nested
mod Eaches
mod Jsons
mod Found
