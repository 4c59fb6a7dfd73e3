pub mod Written
pub mod Rules
pub mod Refusals
pub mod Flat
pub mod Steps
pub mod Latest
pub mod Edges
pub mod Long
