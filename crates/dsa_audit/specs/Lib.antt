pub mod Members
pub mod Repeats
pub mod Audits
pub mod Accepted
pub mod Steps
pub mod Laws
