pub mod Parsed
pub mod Exports
pub mod Scans
