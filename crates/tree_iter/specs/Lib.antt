pub mod Iteration
pub mod Goals
pub mod Walk
pub mod Leads
