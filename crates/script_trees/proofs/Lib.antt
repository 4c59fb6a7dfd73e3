pub mod Stacking
pub mod Putting
pub mod Holding
