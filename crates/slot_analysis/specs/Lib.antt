pub mod Clauses
pub mod Packed
pub mod Slots
pub mod Steps
pub mod Tables
pub mod Tested
pub mod Few
