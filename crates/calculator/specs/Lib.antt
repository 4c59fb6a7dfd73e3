pub mod Worth
pub mod Faults
pub mod Expressions
