pub mod One
pub mod Exist
