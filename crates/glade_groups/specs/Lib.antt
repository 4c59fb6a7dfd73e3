pub mod Groups
pub mod Notes
