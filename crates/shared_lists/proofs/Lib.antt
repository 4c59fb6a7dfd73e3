pub mod Counting
pub mod Parted
pub mod Placing
