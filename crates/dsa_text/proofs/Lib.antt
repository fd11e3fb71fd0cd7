mod Settled
mod Together
pub mod Noted
pub mod WhatIsLeft
