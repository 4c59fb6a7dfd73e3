pub mod Machines
pub mod Calls
pub mod Kept
