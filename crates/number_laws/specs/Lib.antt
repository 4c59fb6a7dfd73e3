pub mod Laws
pub mod Counts
pub mod RightRecursion
pub mod Applied
