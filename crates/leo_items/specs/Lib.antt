pub mod Steps
pub mod Memo
pub mod Linked
pub mod ByRows
pub mod Ways
pub mod Closed
pub mod Hidden
pub mod Walked
