pub mod Errors
pub mod Messages
pub mod Views
pub mod Readings
pub mod Rules
pub mod Shown
