pub mod Words
mod Overlaying
mod Gathering
