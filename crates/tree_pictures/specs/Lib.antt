pub mod Rules
pub mod Places
pub mod Pictures
pub mod Boxes
