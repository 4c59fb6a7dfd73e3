pub mod Described
pub mod Meant
pub mod Sentences
pub mod Told
