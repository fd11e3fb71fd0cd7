pub mod Document
pub mod Held
