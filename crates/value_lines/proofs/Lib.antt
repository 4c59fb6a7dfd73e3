pub mod Meanings
pub mod Playing
pub mod Fitting
pub mod Texts
pub mod Counting
pub mod Pages
