pub mod Abilities
pub mod Faults
pub mod Gathered
pub mod Lookups
pub mod Prepared
