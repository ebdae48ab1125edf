pub mod Listed
pub mod Leaving
