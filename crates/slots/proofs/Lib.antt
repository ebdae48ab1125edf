pub mod Lookups
pub mod Found
