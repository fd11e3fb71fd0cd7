mod Spelled
mod Begun
