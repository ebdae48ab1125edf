pub mod Busy
pub mod Kept
