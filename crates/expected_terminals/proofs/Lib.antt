pub mod Marking
pub mod Expecting
