pub mod Adding
pub mod Held
pub mod Near
