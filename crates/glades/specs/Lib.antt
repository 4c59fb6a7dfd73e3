pub mod Links
pub mod Shapes
pub mod Heads
