pub mod Marks
pub mod Gathered
pub mod Least
pub mod Rows
