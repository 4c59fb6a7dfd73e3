pub mod Membership
pub mod Following
pub mod Parting
pub mod ByRows
pub mod Scanning
pub mod Trying
pub mod Making
pub mod Splitting
pub mod Nulling
pub mod Hiding
pub mod Recognizing
pub mod Twice
pub mod Exact
pub mod Counting
pub mod Expanding
pub mod Below
mod Unbinding
