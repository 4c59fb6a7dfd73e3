pub mod Report
pub mod FlatReport
pub mod Lines
