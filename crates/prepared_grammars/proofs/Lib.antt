pub mod Listed
pub mod Faults
pub mod Gathering
pub mod Finding
pub mod Ordered
