pub mod Adverbs
pub mod Faults
pub mod Found
pub mod Named
pub mod Quotes
pub mod Texts
pub mod Uses
