pub mod Owned
pub mod Copying
pub mod Faults
pub mod Steps
pub mod Kept
pub mod Placed
