pub mod Commands
pub mod Parsing
pub mod Machine
pub mod Replies
pub mod Script
