pub mod Laws
pub mod Submissions
pub mod Checking
pub mod AnyLists
pub mod ReadLists
pub mod Resuming
