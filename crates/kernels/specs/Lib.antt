pub mod Slots
pub mod Shapes
