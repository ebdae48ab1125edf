pub mod Stalled
pub mod Times
pub mod Told
