pub mod Jobs
pub mod Command
pub mod Given
