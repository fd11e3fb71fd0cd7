pub mod Jobs
pub mod Writes
pub mod Held
pub mod Ended
