pub mod All
pub mod Found
pub mod Hints
pub mod Nullable
pub mod Uses
