pub mod Sentences
pub mod Endings
pub mod Texts
