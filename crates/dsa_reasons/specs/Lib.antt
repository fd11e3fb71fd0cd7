pub mod Reasons
pub mod Fences
pub mod OneGroup
pub mod Sentences
pub mod Laws
