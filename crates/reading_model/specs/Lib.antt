pub mod Accepted
pub mod First
pub mod Matches
pub mod Reading
pub mod Laws
