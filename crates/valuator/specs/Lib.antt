pub mod Told
pub mod Made
pub mod Play
pub mod Nulling
pub mod Player
