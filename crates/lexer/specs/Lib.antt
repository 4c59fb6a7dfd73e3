pub mod Lexical
pub mod Laws
pub mod Terminals
pub mod Machines
pub mod Reading
pub mod Unbound
