pub mod Listed
pub mod First
pub mod Submitted
pub mod Ready
pub mod AnyLists
pub mod SubmittedAlike
pub mod Left
pub mod ReadLists
