pub mod Tables
pub mod Added
