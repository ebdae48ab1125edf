pub mod Chosen
pub mod Taking
pub mod Kept
