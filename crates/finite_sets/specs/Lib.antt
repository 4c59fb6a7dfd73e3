pub mod Decided
pub mod Walks
pub mod Laws
