pub mod Asked
mod Examples
pub mod Settings
pub mod Spellings
mod Orders
pub mod Fitted
