mod Agreeing
pub mod Listing
pub mod Sorted
pub mod Matching
pub mod Moving
pub mod Runs
pub mod ClassLists
pub mod Noting
pub mod RowKinds
pub mod Machines
pub mod Done
pub mod ReadOn
