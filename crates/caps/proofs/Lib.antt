pub mod Capped
pub mod Passing
pub mod Listing
pub mod Ranked
pub mod Decided
