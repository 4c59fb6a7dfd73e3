pub mod Walks
pub mod Groups
pub mod Laws
pub mod Applied
