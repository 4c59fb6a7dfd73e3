pub mod Lines
pub mod Pieces
pub mod Told
pub mod Telling
