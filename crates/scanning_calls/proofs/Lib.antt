mod Gathering
mod Hearing
mod Deriving
