pub mod Found
pub mod Search
pub mod Results
pub mod RowLemmas
pub mod Gathering
pub mod Marks
pub mod ClauseLists
