pub mod Chain
mod Middle
mod Joined
mod Extended
mod Lacking
mod Streamed
pub mod Outcomes
pub mod Reasons
mod EntryOps
pub mod Listed
pub mod Pushed
pub mod Reaudited
pub mod Within
pub mod Placed
pub mod Found
pub mod Status
pub mod Summed
pub mod Inputs
mod Accepting
pub mod Keyed
mod Sharing
pub mod Priced
pub mod StreamOf
pub mod ListingLines
pub mod StandIns
pub mod ListingRead
pub mod FenceKeys
pub mod NamedPairs
pub mod Fronts
pub mod Using
mod Taking
mod Flawed
