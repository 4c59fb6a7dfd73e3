pub mod Settings
pub mod Json
pub mod Nodes
pub mod Texts
