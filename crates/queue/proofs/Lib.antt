pub mod Taken
pub mod Placed
