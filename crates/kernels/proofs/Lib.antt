pub mod Numbers
pub mod Slotting
pub mod Shaping
pub mod Guessing
