pub mod Objects
pub mod Names
pub mod Arrays
pub mod Pairs
pub mod Spelled
pub mod OneDocument
pub mod Documents
