pub mod Spelled
pub mod Taken
pub mod Said
