pub mod PerEdge
pub mod Walk
pub mod Routes
