pub mod Walk
pub mod Place
pub mod Joined
pub mod Going
