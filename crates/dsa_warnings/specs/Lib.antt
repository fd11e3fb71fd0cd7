pub mod Concerned
pub mod Concerns
pub mod Warnings
pub mod Sentences
