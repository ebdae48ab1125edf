pub mod PutBack
pub mod Shifted
