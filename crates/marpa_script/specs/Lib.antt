pub mod Told
pub mod Machines
pub mod Written
pub mod Listed
