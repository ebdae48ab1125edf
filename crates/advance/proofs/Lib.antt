pub mod Listed
pub mod Loads
pub mod Advanced
