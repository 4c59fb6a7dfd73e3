pub mod Meaning
pub mod ValueCode
pub mod Nodes
pub mod Pool
pub mod Parts
pub mod Escapes
