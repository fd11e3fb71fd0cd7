pub mod Rising
pub mod Marked
pub mod Courses
pub mod Parts
pub mod Placed
pub mod Hazards
pub mod UsedWaits
mod Alike
pub mod Entered
pub mod Fits
pub mod Agreeing
