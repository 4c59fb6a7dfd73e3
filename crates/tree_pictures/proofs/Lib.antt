mod Eaches
mod Appended
mod Counts
mod Setting
mod Bounded
mod Before
