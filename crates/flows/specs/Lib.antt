pub mod Fits
pub mod Decided
