pub mod LineStarts
pub mod Shown
pub mod Parts
pub mod Stopping
pub mod Marked
pub mod Reports
pub mod One
pub mod Few
