mod Telling
mod Showing
mod Scanned
