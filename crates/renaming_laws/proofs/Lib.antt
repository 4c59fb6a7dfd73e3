mod Renamed
mod Sets
mod Trees
mod Over
mod Links
mod Forms
pub mod Alike
