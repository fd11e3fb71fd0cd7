pub mod Reached
pub mod Listed
pub mod Fenced
pub mod FencedOnce
pub mod OneGroup
