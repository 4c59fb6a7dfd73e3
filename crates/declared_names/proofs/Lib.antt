pub mod Found
pub mod Mentions
pub mod Failing
pub mod First
