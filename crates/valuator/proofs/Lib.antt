pub mod Grown
pub mod Played
pub mod Every
pub mod Following
pub mod Derived
pub mod Firsts
