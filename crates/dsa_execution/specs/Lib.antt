pub mod Headline
pub mod Engines
pub mod Left
pub mod Seeds
pub mod Samples
pub mod Alike
pub mod Planned
pub mod Resuming
