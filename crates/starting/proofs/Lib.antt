pub mod Unmoved
