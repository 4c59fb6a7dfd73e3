pub mod All
pub mod Firsts
pub mod Pieces
pub mod Rounds
pub mod Sound
pub mod Used
