pub mod Cells
pub mod Runs
pub mod Words
pub mod Waits
pub mod Document
pub mod Explained
pub mod Laws
