pub mod Actions
pub mod Building
pub mod Classes
pub mod Description
pub mod Layout
pub mod Places
pub mod Texts
pub mod Tokens
