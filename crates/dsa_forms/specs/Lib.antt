pub mod Forms
pub mod Kinds
