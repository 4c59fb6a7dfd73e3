pub mod Rows
pub mod Order
pub mod Kept
pub mod Dotted
pub mod Held
pub mod Heads
pub mod Unbound
pub mod Noted
