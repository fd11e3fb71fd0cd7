pub mod Steps
pub mod Division
pub mod Tables
pub mod Turned
pub mod Going
