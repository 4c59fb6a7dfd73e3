pub mod Growth
pub mod Halving
pub mod Placed
pub mod Holding
pub mod Listing
pub mod Chains
pub mod Known
pub mod Newest
