pub mod Adjacent
pub mod Listing
