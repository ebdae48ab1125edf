pub mod Loading
pub mod Freezing
pub mod Searching
pub mod Deciding
