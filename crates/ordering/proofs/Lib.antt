pub mod Listings
pub mod Strict
pub mod Merging
pub mod Stepping
pub mod Halves
