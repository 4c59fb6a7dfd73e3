pub mod Arena
pub mod Held
pub mod Building
pub mod BareLines
pub mod Pooled
pub mod Listed
