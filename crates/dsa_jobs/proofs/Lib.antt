pub mod Splits
pub mod Steps
pub mod Answers
pub mod Chunks
