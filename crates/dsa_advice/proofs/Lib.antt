pub mod PlannedNeeded
pub mod Refused
pub mod Answered
pub mod Spelled
pub mod Named
