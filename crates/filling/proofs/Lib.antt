pub mod Running
pub mod Beginning
pub mod Fillable
