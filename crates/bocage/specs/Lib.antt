pub mod Rows
pub mod Readers
pub mod Expanded
pub mod Joins
pub mod Needed
pub mod Given
pub mod Walk
pub mod Ends
