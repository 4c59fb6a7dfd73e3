mod Refusing
pub mod InputLemmas
pub mod NamedRows
pub mod Derived
mod OneLine
