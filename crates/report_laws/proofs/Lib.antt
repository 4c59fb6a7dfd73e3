mod Rounds
mod FromItems
mod ToItems
pub mod Flat
pub mod One
pub mod Existing
mod Seen
