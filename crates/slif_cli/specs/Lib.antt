pub mod Stops
pub mod Tasks
pub mod Giving
