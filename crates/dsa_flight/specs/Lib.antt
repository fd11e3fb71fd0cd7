pub mod Flight
pub mod Laws
pub mod Caller
pub mod Needed
pub mod Own
pub mod Hosted
pub mod Spans
pub mod Planned
