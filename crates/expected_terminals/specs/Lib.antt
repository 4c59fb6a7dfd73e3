pub mod Marks
pub mod Expected
