pub mod Counting
pub mod Accepting
pub mod Within
pub mod First
pub mod Behind
pub mod One
pub mod Few
pub mod Characters
