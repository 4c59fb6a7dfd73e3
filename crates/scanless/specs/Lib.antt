pub mod Reading
pub mod Pieces
pub mod Taking
pub mod Cutting
pub mod Noted
