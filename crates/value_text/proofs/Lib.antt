pub mod Descriptors
pub mod Folds
pub mod Rest
