pub mod Closing
pub mod Begun
pub mod Tried
pub mod Met
