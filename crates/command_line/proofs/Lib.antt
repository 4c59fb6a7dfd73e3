mod Numbers
mod Options
mod Rows
mod Looks
mod Walked
mod Agreed
mod Named
mod Different
