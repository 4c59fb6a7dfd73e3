pub mod Stops
pub mod Refusals
pub mod Places
pub mod Telling
