pub mod Linked
pub mod Writing
