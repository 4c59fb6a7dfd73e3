pub mod Eaches
pub mod Parts
pub mod First
