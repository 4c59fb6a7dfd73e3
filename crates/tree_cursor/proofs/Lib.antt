pub mod Letters
pub mod Stacks
pub mod Depths
pub mod Spelled
pub mod Joined
pub mod Refused
