pub mod Spelt
pub mod Entire
pub mod Kept
pub mod Order
pub mod Same
pub mod Answered
pub mod Written
pub mod Apart
