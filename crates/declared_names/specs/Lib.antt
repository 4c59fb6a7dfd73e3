pub mod Scope
pub mod Names
pub mod Faults
pub mod Order
